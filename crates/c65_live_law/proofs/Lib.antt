mod Step
mod Room
mod Bounds
mod Tables

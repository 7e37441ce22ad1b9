pub mod Optimised

mod Lines
mod Pieces
mod Ahead
mod Taken
mod Told
mod Leads
mod Steps
mod Behind

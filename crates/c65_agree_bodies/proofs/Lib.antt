mod Runs
mod Bodies

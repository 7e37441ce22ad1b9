pub mod Sound
mod Ahead
mod Lookahead
mod Further
mod Opened
pub mod ByLines
mod Settling
mod Adding
mod Held
mod Views
mod Answering
mod Only
mod Cut

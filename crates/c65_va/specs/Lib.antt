pub mod Printf

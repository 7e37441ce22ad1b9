pub mod Runtime

mod Calling
mod Library
mod Named
mod Passed
mod Reaching
mod Refused
mod Returned
mod Words

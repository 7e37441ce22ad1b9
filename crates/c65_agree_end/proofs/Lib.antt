mod Main
mod Returned

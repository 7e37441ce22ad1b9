pub mod Flow
pub mod Stills
pub mod Putchar
pub mod Getchar
pub mod Exit

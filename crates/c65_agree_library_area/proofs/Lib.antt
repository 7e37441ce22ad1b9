pub mod Memset
pub mod Memcpy
pub mod Strcpy

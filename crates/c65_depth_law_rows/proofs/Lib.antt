mod Rows
mod Order
mod Least
mod Ranks
mod Settle
mod Cover

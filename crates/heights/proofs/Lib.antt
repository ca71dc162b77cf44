mod Withs
mod Expressions
mod Labels
mod Lists

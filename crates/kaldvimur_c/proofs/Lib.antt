mod Bounds
mod Answers
mod Codes
mod Filling
mod Counting

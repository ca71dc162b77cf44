pub mod Gives
pub mod Ruling
pub mod Shaping
pub mod Firsts
pub mod Finishing
pub mod Refusals

pub mod Laws
mod Numbers
mod Sections
mod Cells
mod Indexes
mod Bodies
mod Programs

mod Growing
mod Pushing
mod Infos
mod Cells
mod Selecting
mod Binding
mod Whole

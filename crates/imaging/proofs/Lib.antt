mod Going
mod Marking
mod Counting
mod Filling
mod Picturing
mod Showing

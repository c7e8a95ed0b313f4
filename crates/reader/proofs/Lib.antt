pub mod Numbers
mod Checks
mod Runs
mod Steps

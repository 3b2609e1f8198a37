mod Grids
mod Fields
mod Keeping
mod Standing
mod Steps
mod Logs

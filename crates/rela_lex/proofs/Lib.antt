mod Bytes
mod Cuts
mod Fronts
mod Reached
mod Runs

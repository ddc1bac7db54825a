mod Called
mod Leavings

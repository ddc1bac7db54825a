mod Ends
mod Lines
mod Asking
mod Making
mod Causes
mod Adding

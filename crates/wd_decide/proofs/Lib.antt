mod Sound
mod Shown
mod Lists
mod Plain
mod Taken

mod Trying
mod Tries
mod Reading

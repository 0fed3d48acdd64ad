pub mod NoneKept

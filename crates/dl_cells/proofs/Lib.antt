mod ThreadSafety
mod Values

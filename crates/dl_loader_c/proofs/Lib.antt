pub mod KeptBox
pub mod KeptSend
pub mod Tickets
pub mod Told

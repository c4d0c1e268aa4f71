pub mod History
pub mod Calls
pub mod BatchBook
pub mod Ready
pub mod Events
pub mod Service
pub mod Legal
pub mod Laws
-- words of private functions, and of what values are made of
pub mod Inside

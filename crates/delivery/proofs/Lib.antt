-- What a panel's call wrote, and what the receiver makes of it.
mod Refusals
mod Results
mod Understood
mod Declaring
mod Fitting
mod Touching
mod Dismissing
mod Arriving
-- What every call keeps, and the promise.
pub mod Kept
pub mod Delivery

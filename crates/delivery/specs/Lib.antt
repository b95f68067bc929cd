-- What a panel sends, delivered to a receiver.
pub mod Delivery

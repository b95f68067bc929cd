-- Laws of a touch message, frame by frame and check by check.
mod Stepping
mod Running
mod Faulting
mod Touching

-- Record files as they were before #107.
pub mod OldReceiver
pub mod Files

-- Text on a page.
pub mod Page

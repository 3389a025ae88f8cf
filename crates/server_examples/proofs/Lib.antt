mod Numbered
mod Showing

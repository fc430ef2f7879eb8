mod Examples
mod Numbered
mod Tested

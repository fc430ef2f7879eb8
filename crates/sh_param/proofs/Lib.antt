mod Examples
mod Newlines
mod Numbers
mod Places
mod Searches
mod Unread

-- What the number 0 says of begin, feed and end.
pub mod Numbers

mod Reading
mod Answering

mod ReadBack
mod Held

mod Places
mod Sizes
mod Hexes

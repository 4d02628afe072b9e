mod Counting
mod Front
mod SoFar

-- Twice (the law about what a call of improve leaves) and Two (the same of the exported call) are for the proof of `improve_twice` alone.
mod Twice
mod Two

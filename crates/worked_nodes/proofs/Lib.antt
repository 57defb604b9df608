mod Driving
mod Modes
mod Turning

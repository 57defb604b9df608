mod Cleanness
mod Statuses
mod Printing
mod Judging

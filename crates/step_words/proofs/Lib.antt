mod Bars
mod Parts
mod KindsFit

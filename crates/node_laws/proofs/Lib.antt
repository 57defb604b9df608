mod Ideal
mod LongLines
mod PipeExamples
mod RunExamples
mod Told

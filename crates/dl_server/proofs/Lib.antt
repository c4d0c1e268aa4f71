mod Answered
mod Filled
mod ListTexts
mod Served

mod Days
mod DateTexts
mod Worked

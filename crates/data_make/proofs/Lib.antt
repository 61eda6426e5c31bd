mod Growing
mod Worked
mod FieldReads
mod SchemaReads
mod CsvText
mod MadeRows
mod QueryReads
mod WorkedAnswers

mod Tables
mod Clauses
mod Queries

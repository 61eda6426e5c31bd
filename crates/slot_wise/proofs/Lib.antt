pub mod FarShifts

pub mod WorkedHold

pub mod TraceCalls

pub mod LineStateLaws
pub mod ToldLaws
pub mod LineAnswerLaws
pub mod PacketCalls
pub mod LineCalls

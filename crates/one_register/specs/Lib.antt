pub mod OneRegister

pub mod JumpLaws

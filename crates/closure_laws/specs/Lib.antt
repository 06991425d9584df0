pub mod SoundPlans
pub mod RepairLaws
pub mod GoodClosures

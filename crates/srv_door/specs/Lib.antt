pub mod AtDoor
pub mod DoorOfOne
pub mod DoorTurns
pub mod Kept

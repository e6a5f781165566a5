mod Views
mod Climbs
